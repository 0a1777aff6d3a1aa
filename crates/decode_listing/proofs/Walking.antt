-- Lines that are appended one after another are the lines of a listing.
use Rattle.std.proofs.Common.{◌≡◌, ℕ, suc, ◌+◌, ◌-◌, ◌<◌, List, [], ◌++◌, Some, None, refl, sym, ◌∙◌, ap, subst, inl, inr, append_assoc, arith}
use Rattle.std.proofs.lemmas.List.{append-nil}
use Rattle.memory_map.specs.Image.{Image}
use Rattle.decode_listing.specs.Listing.{AreLines, AreAppended, IsAppended}

-- the lines of the first n instructions are appended, and those that stand from an address on complete them
pub record Walked (image : Image) (count address : ℕ) (before after : List ℕ) (at n : ℕ) : Type 0 where
  pub lines : List ℕ
  pub gained : after ≡ before ++ lines
  pub complete : (others : List ℕ) (more : ℕ) → AreLines image (count - n) at others more → AreLines image count address (lines ++ others) (n + more)

module _ (image : Image) (count address : ℕ) (before : List ℕ) where
  pub walked_none : Walked image count address before before address 0
  walked_none = record {
    lines = [];
    gained = sym (append-nil before);
    complete = λ others more are.
        let left : count - 0 ≡ count = omega arith in
        let sum : more ≡ 0 + more = omega arith in
        let P : ℕ → Type 0 = λ k. AreLines image k address others more in
        let Q : ℕ → Type 0 = λ k. AreLines image count address others k in
        subst Q sum (subst P left are);
  }

  pub walked_more : (after new : List ℕ) (at next n : ℕ) → n < count → Walked image count address before after at n → IsAppended image at after new (Some next) → Walked image count address before new next (n + 1)
  unfolding AreLines
  walked_more after new at next n less w a = record {
    lines = w.lines ++ a.line;
    gained = a.gained ∙ ap (λ l. l ++ a.line) w.gained ∙ append_assoc before w.lines a.line;
    complete = λ others more are.
        let left : suc (count - (n + 1)) ≡ count - n = omega arith in
        let P : ℕ → Type 0 = λ k. AreLines image k at (a.line ++ others) (suc more) in
        let these : AreLines image (count - n) at (a.line ++ others) (suc more) = subst P left (inl (record {
          line = a.line;
          next = next;
          lists = a.is;
          others = others;
          more = more;
          follow = are;
          whole = refl;
          counted = refl;
        })) in
        let sum : n + suc more ≡ (n + 1) + more = omega arith in
        let Q : ℕ → Type 0 = λ k. AreLines image count address ((w.lines ++ a.line) ++ others) k in
        let R : List ℕ → Type 0 = λ l. AreLines image count address l (n + suc more) in
        subst Q sum (subst R (sym (append_assoc w.lines a.line others)) (w.complete (a.line ++ others) (suc more) these));
  }

  pub walked_whole : (after : List ℕ) (at : ℕ) → Walked image count address before after at count → AreAppended image count address before after count
  unfolding AreLines
  walked_whole after at w =
      let none : 0 ≡ count - count = omega arith in
      let P : ℕ → Type 0 = λ k. AreLines image k at [] 0 in
      let nothing : AreLines image (count - count) at [] 0 = subst P none (refl, refl) in
      let sum : count + 0 ≡ count = omega arith in
      let Q : ℕ → Type 0 = λ k. AreLines image count address w.lines k in
      let R : List ℕ → Type 0 = λ l. AreLines image count address l (count + 0) in
      record { lines = w.lines; are = subst Q sum (subst R (append-nil w.lines) (w.complete [] 0 nothing)); gained = w.gained }

  pub walked_stop : (after new : List ℕ) (at n : ℕ) → n < count → Walked image count address before after at n → IsAppended image at after new None → AreAppended image count address before new n
  unfolding AreLines
  walked_stop after new at n less w a =
      let left : suc (count - (n + 1)) ≡ count - n = omega arith in
      let P : ℕ → Type 0 = λ k. AreLines image k at a.line 0 in
      let stop : AreLines image (count - n) at a.line 0 = subst P left (inr (a.is, refl)) in
      let sum : n + 0 ≡ n = omega arith in
      let Q : ℕ → Type 0 = λ k. AreLines image count address (w.lines ++ a.line) k in
      record {
        lines = w.lines ++ a.line;
        are = subst Q sum (w.complete a.line 0 stop);
        gained = a.gained ∙ ap (λ l. l ++ a.line) w.gained ∙ append_assoc before w.lines a.line;
      }
