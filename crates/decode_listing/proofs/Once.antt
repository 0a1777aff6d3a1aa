-- There is one listing alone.
use Rattle.std.proofs.Common.{◌≡◌, ℕ, zero, suc, List, ◌++◌, take, sym, ◌∙◌, ap, subst, inl, inr}
use Rattle.memory_map.specs.Image.{Image}
use Rattle.x86_syntax.specs.declared.instr.Instr.{Instr}
use Rattle.x86_syntax.specs.Text.{next_address}
use Rattle.x86_syntax.proofs.DecodesLemmas.{decodes_once, no_decode}
use Rattle.decode_listing.specs.Listing.{Lists, ListsRefusal, AreLines, IsListing, code_from, instruction_line, fault_line, header_line, end_line}
use Rattle.decode_listing.proofs.Refusing.{refused_once}

module _ (image : Image) where
  -- an address has one line of an instruction, with one address after it
  lists_once : (at : ℕ) (line other : List ℕ) (next after : ℕ) → Lists image at line next → Lists image at other after → (line ≡ other) × (next ≡ after)
  lists_once at line other next after l m =
      let same : (l.i ≡ m.i) × (l.size ≡ m.size) = decodes_once (code_from image at) l.i m.i l.size m.size l.decodes m.decodes in (
        l.text ∙ ap (λ (i : Instr). instruction_line at (take l.size (code_from image at)) i) same.0
            ∙ ap (λ (n : ℕ). instruction_line at (take n (code_from image at)) m.i) same.1 ∙ sym m.text,
        l.after ∙ ap (λ (n : ℕ). next_address at n) same.1 ∙ sym m.after,
      )

  -- one of a fault
  refuses_once : (at : ℕ) (line other : List ℕ) → ListsRefusal image at line → ListsRefusal image at other → line ≡ other
  refuses_once at line other r s = r.text ∙ ap (fault_line at) (refused_once r.fault s.fault (code_from image at) r.cause s.cause) ∙ sym s.text

  -- and not both
  not_both : (at : ℕ) (line other : List ℕ) (next : ℕ) → Lists image at line next → ListsRefusal image at other → ⊥
  not_both at line other next l r = no_decode (code_from image at) l.i l.size r.none l.decodes

  pub lines_once : (count at : ℕ) (lines others : List ℕ) (n m : ℕ) → AreLines image count at lines n → AreLines image count at others m → (lines ≡ others) × (n ≡ m)
  unfolding AreLines
  lines_once zero at lines others n m (none, zeros) (other, noughts) = (none ∙ sym other, zeros ∙ sym noughts)
  lines_once (suc count) at lines others n m (inl g) (inl h) =
      let first : (g.line ≡ h.line) × (g.next ≡ h.next) = lists_once at g.line h.line g.next h.next g.lists h.lists in
      let P : ℕ → Type 0 = λ next. AreLines image count next g.others g.more in
      let rest : (g.others ≡ h.others) × (g.more ≡ h.more) = lines_once count h.next g.others h.others g.more h.more (subst P first.1 g.follow) h.follow in (
        g.whole ∙ ap (λ (l : List ℕ). l ++ g.others) first.0 ∙ ap (λ (l : List ℕ). h.line ++ l) rest.0 ∙ sym h.whole,
        g.counted ∙ ap (λ (k : ℕ). suc k) rest.1 ∙ sym h.counted,
      )
  lines_once (suc count) at lines others n m (inl g) (inr s) = absurd (not_both at g.line others g.next g.lists s.0)
  lines_once (suc count) at lines others n m (inr r) (inl h) = absurd (not_both at h.line lines h.next h.lists r.0)
  lines_once (suc count) at lines others n m (inr r) (inr s) = (refuses_once at lines others r.0 s.0, r.1 ∙ sym s.1)

  pub listing_once : (at count : ℕ) (text other : List ℕ) → IsListing image at count text → IsListing image at count other → text ≡ other
  listing_once at count text other l m =
      let same : (l.lines ≡ m.lines) × (l.n ≡ m.n) = lines_once count at l.lines m.lines l.n m.n l.are m.are in
      l.whole ∙ ap (λ (lines : List ℕ). header_line ++ lines ++ end_line l.n) same.0
      ∙ ap (λ (n : ℕ). header_line ++ m.lines ++ end_line n) same.1 ∙ sym m.whole
