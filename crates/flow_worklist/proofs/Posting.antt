-- What an image has at an address, and the expansion of a row there.
use Rattle.std.proofs.Common.{◌≡◌, ℕ, Bool, true, false, List, [], take, cond, Option, Some, None, refl, sym, ◌∙◌, ap, subst, ◌==◌, inl, inr}
use Rattle.std.proofs.lemmas.Bool.{eq-eqb}
use Rattle.std.specs.Prelude.{Contains, IfOk, Result, Ok, Err}
use Rattle.std.specs.Option.{IsSome, option_map_or}
use Rattle.domain_laws.specs.Laws.{Values}
use Rattle.stub_file.specs.Stubs.{StatedStubs}
use Rattle.import_stubs.specs.Stub.{expand_at, expand_stub}
use Rattle.flow_log.proofs.Members.{Contains-none}
use Rattle.memory_map.specs.Image.{Image, EXIT_PLACE, name_at}
use Rattle.x86_syntax.specs.declared.instr.Instr.{Instr}
use Rattle.x86_syntax.specs.Decodes.{decoded}
use Rattle.x86_decoder.specs.declared.fault.DecodeFault.TheVariants.{NotListed, TooLong}
use Rattle.x86_decoder.specs.Refusals.{Refused, is_truncated}
use Rattle.x86_decoder.proofs.Fronts.{goes_on_front, not_both}
use Rattle.flow_log.specs.declared.cause.Cause.TheVariants as causes
use Rattle.flow_log.specs.declared.edge.Label.TheVariants as labels
use Rattle.x86_machine.specs.Machine.{label_by, instr_bytes}
use Rattle.abstract_state.specs.State.{Known}
use Rattle.abstract_state.specs.Expanding.{Expanded, ended, stopped}
use Rattle.transfer_functions.specs.Fetching.{is_cut, known_run}
use Rattle.transfer_functions.specs.Post.{expand_instr}
use Rattle.flow_worklist.specs.declared.site.Site.{Site}
use Rattle.flow_worklist.specs.declared.site.Site.TheVariants.{Exit, Import, Code}
use Rattle.flow_worklist.specs.declared.post.Post.{Post}
use Rattle.flow_worklist.specs.Post.{site_by, site_at, post, post_at, post_code, unlisted_cause}
use Rattle.flow_worklist.specs.PostOf.{IsCodeOf, IsPostOf}

-- no pair where the expansion has none
pub no_pair : {D : Type 0} (pairs : List (ℕ × Known D)) (pair : ℕ × Known D) (P : Type 0) → pairs ≡ [] → Contains pairs pair → P
no_pair {D} pairs pair P none held = let Q : List (ℕ × Known D) → Type 0 = λ ps. Contains ps pair in absurd (Contains-none pair (subst Q none held))

module _ (image : Image) (a : ℕ) where
  by_exit : (b : Bool) → (a == EXIT_PLACE) ≡ b → site_at image a ≡ cond b Exit (site_by (name_at image a))
  unfolding site_at
  by_exit b is = ap (λ c. cond c Exit (site_by (name_at image a))) is

  pub site-exit : a ≡ EXIT_PLACE → site_at image a ≡ Exit
  site-exit at = by_exit true (eq-eqb a EXIT_PLACE at)

  pub site-import : (name : List ℕ) → (a == EXIT_PLACE) ≡ false → name_at image a ≡ Some name → site_at image a ≡ Import
  site-import name off named = by_exit false off ∙ ap site_by named

  pub site-code : (a == EXIT_PLACE) ≡ false → name_at image a ≡ None → site_at image a ≡ Code
  site-code off unnamed = by_exit false off ∙ ap site_by unnamed

  named_by : (b : Bool) (name : Option (List ℕ)) → cond b Exit (site_by name) ≡ Import → IsSome name
  named_by true name e = cc
  named_by false None e = cc
  named_by false (Some name) e = refl

  -- the place of an import has a name
  pub import_named : site_at image a ≡ Import → IsSome (name_at image a)
  unfolding site_at
  import_named is = named_by (a == EXIT_PLACE) (name_at image a) is

  unnamed_by : (b : Bool) (name : Option (List ℕ)) → cond b Exit (site_by name) ≡ Code → name ≡ None
  unnamed_by true name e = cc
  unnamed_by false None e = refl
  unnamed_by false (Some name) e = cc

  -- and code has none
  pub code_unnamed : site_at image a ≡ Code → name_at image a ≡ None
  unfolding site_at
  code_unnamed is = unnamed_by (a == EXIT_PLACE) (name_at image a) is

-- bytes that no more bytes make an instruction are the cause `bytes`
no_code : (cut : Bool) (bytes : List ℕ) → is_truncated bytes ≡ false → causes.Bytes ≡ unlisted_cause cut bytes
no_code true bytes none = sym (ap (λ b. cond b causes.Code causes.Bytes) none)
no_code false bytes none = refl

is_false : (b : Bool) → (b ≡ true → ⊥) → b ≡ false
is_false true never = absurd (never refl)
is_false false never = refl

pub not_listed : (cut : Bool) (bytes : List ℕ) (at : ℕ) → Refused (NotListed at) bytes → causes.Bytes ≡ unlisted_cause cut bytes
not_listed cut bytes at refused = no_code cut bytes (is_false (is_truncated bytes) (λ on. not_both at bytes refused (goes_on_front bytes on)))

pub too_long : (cut : Bool) (bytes : List ℕ) → Refused TooLong bytes → causes.Bytes ≡ unlisted_cause cut bytes
too_long cut bytes refused = no_code cut bytes (is_false (is_truncated bytes) refused.1)

-- the expansion at an import's place is that of its name
module _ {D : Type 0} (d : Values D) (image : Image) (stubs : StatedStubs) (a : ℕ) (s : Known D) where
  pub expand-named : (name : List ℕ) → name_at image a ≡ Some name → expand_at d image stubs a s ≡ expand_stub d image stubs name s
  expand-named name is = ap (λ o. option_map_or (λ name. expand_stub d image stubs name s) o (ended [])) is

  pub expand-unnamed : name_at image a ≡ None → expand_at d image stubs a s ≡ ended []
  expand-unnamed is = ap (λ o. option_map_or (λ name. expand_stub d image stubs name s) o (ended [])) is

-- of code
module _ {D : Type 0} (d : Values D) (image : Image) (k a : ℕ) (s : Known D) where
  abbrev known_there : List ℕ
  known_there = known_run d image s a

  -- the bytes begin with an instruction
  pub with_instr : (i : Instr) (n : ℕ) (answer : Post D) → decoded known_there ≡ Some (i, n) → answer.at ≡ a → answer.expansion ≡ expand_instr d image k i a n s
      → answer.label ≡ labels.Code (record { items = take n known_there }) → IsCodeOf d image k a s answer
  with_instr i n answer found at x label = record {
    located = at;
    expansion = x ∙ sym (ap (λ o. post_code d image k o a s) found);
    label = inr (ap (λ o. labels.Code (record { items = instr_bytes o known_there })) found ∙ sym label);
  }

  -- or with none
  pub with_none : (answer : Post D) → decoded known_there ≡ None → answer.at ≡ a → answer.expansion ≡ stopped (unlisted_cause (is_cut d image s a) (known_run d image s a)) [] → IsCodeOf d image k a s answer
  with_none answer found at x = record {
    located = at;
    expansion = x ∙ sym (ap (λ o. post_code d image k o a s) found);
    label = inl (ap (λ (y : Expanded D). y.next) x);
  }

module _ {D : Type 0} (d : Values D) (image : Image) (stubs : StatedStubs) (k a : ℕ) (s : Known D) where
  pub post_is : (site : Site) → site_at image a ≡ site → post d image stubs k a s ≡ post_at d image stubs k site a s
  unfolding post
  post_is site is = ap (λ z. post_at d image stubs k z a s) is

  -- at code, by what the bytes begin with
  pub post_code_is : (found : Option (Instr × ℕ)) → site_at image a ≡ Code → decoded (known_there d image k a s) ≡ found
      → post d image stubs k a s ≡ post_code d image k found a s
  post_code_is found is decodes = post_is Code is ∙ ap (λ o. post_code d image k o a s) decodes

  -- what the code answers of the exit place
  pub at_exit : (answer : Post D) → site_at image a ≡ Exit → answer.at ≡ a → answer.expansion ≡ ended [] → IsPostOf d image stubs k a s answer
  at_exit answer is at x = record { located = at; expansion = x ∙ sym (post_is Exit is); label = inl (ap (λ (y : Expanded D). y.next) x) }

  -- of an import
  pub with_call : (answer : Post D) → site_at image a ≡ Import → answer.at ≡ a → answer.expansion ≡ expand_at d image stubs a s → answer.label ≡ label_by (name_at image a) []
      → IsPostOf d image stubs k a s answer
  with_call answer is at x label =
      record { located = at; expansion = x ∙ sym (post_is Import is); label = inr (by_name (name_at image a) (known_there d image k a s) (import_named image a is) ∙ sym label) }
    where
      by_name : (name : Option (List ℕ)) (bytes : List ℕ) → IsSome name → label_by name bytes ≡ label_by name []
      by_name None bytes some = cc
      by_name (Some name) bytes some = refl

  -- and of code
  pub with_code : (answer : Post D) → site_at image a ≡ Code → IsCodeOf d image k a s answer → IsPostOf d image stubs k a s answer
  with_code answer is h = record {
    located = h.located;
    expansion = h.expansion ∙ sym (post_is Code is);
    label = elim h.label [
      | inl none ↦ inl none
      | inr label ↦ inr (ap (λ o. label_by o (known_there d image k a s)) (code_unnamed image a is) ∙ label)
    ];
  }

  pub with_code_ok : {E : Type 0} (r : Result (Post D) E) → site_at image a ≡ Code → IfOk r (IsCodeOf d image k a s) → IfOk r (IsPostOf d image stubs k a s)
  with_code_ok (Ok answer) is h = with_code answer is h
  with_code_ok (Err fault) is h = tt
