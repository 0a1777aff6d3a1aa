-- Slots that receive their places, one after another.
use Rattle.std.proofs.Common.{ℕ, ◌≡◌, ◌+◌, ◌<◌, List, [], length, take, get_or, refl, sym, ◌∙◌}
use Rattle.std.proofs.lemmas.List.Sums.{fold_more}
use Rattle.memory_map.specs.Patch.{put_word}
use Rattle.memory_map.specs.Range.{Range}
use Rattle.pe32_reader.specs.Image.{with_slots}
use Rattle.pe32_reader.specs.declared.slots.Slot.{Slot}

pub with_slots-none : (ranges : List Range) → ranges ≡ with_slots ranges []
unfolding with_slots
with_slots-none ranges = refl

pub with_slots-more : (ranges held : List Range) (slots : List Slot) (i : ℕ) (d : Slot) → i < length slots
    → held ≡ put_word (get_or slots i d).at (get_or slots i d).place (with_slots ranges (take i slots)) → held ≡ with_slots ranges (take (i + 1) slots)
unfolding with_slots
with_slots-more ranges held slots i d lt h = h ∙ sym (fold_more (λ (rs : List Range) s. put_word s.at s.place rs) ranges slots i d lt)
