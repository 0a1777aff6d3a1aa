-- Replies of imports that lead nowhere.
use Rattle.std.proofs.Common.{◌≡◌, ℕ, ◌<◌, Bool, ℤ, pos, ap, inl, inr}
use Rattle.std.specs.Prelude.{◌⊎◌, if◌then◌else◌}
use Rattle.std.proofs.lemmas.Bool.{lt-leb}
use Rattle.address_regions.specs.declared.region.Region.TheVariants.{Block}
use Rattle.domain_laws.specs.Laws.{Values}
use Rattle.memory_map.specs.Image.{Image}
use Rattle.stub_file.specs.declared.stub.Reply.{Reply}
use Rattle.stub_file.specs.declared.stub.Reply.TheVariants.{Enter, Never}
use Rattle.import_semantics.specs.StubDoes.{LARGEST_BLOCK}
use Rattle.abstract_state.specs.State.{Known}
use Rattle.abstract_state.specs.Expanding.{Path, ended, lands}
use Rattle.import_stubs.specs.Stub.{hands_out, returns, with_block, with_result}

module _ {D : Type 0} (d : Values D) (image : Image) where
  -- a block that is larger than any may be
  pub too-large : (top : ℤ) (site size : ℕ) (zeroed : Bool) (p : Path D) → LARGEST_BLOCK < size → hands_out d image top site size zeroed p ≡ ended p.writes
  too-large top site size zeroed p less =
      let landed = lands site (with_result d image top (d.place (Block site size zeroed) (pos 0)) (with_block d image (Block site size zeroed) p)) in
      ap (λ b. if b then landed else ended p.writes) (lt-leb size LARGEST_BLOCK less)

  -- a function that does not return, or enters another
  pub no-return : (o top : ℤ) (reply : Reply) (site : ℕ) (s : Known D) (p : Path D) → (reply ≡ Never) ⊎ ((i : ℕ) × (reply ≡ Enter i)) → returns d image o top reply site s p ≡ ended p.writes
  no-return o top reply site s p is =
      elim is [
        | inl never ↦ ap (λ r. returns d image o top r site s p) never
        | inr enter ↦ ap (λ r. returns d image o top r site s p) enter.1
      ]
