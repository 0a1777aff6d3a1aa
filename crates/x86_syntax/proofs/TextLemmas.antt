-- The text of the operands, one after another.
use Rattle.std.proofs.Common.{◌≡◌, ℕ, ◌+◌, ◌≤◌, ◌<◌, List, [], ◌∷◌, ◌++◌, Bool, length, drop, get_or, sym, ◌∙◌, ap, append_assoc, append-nil, add-one}
use Rattle.std.proofs.lemmas.List.Sums.{sum_by-cons}
use Rattle.std.proofs.Math.Seq.{drop-cons}
use Rattle.std.proofs.Math.ListN.{drop_of_length-le}
use Rattle.std.specs.Prelude.{sum_by}
use Rattle.x86_syntax.specs.declared.instr.Operand.{Operand}
use Rattle.x86_syntax.specs.Text.{separator, operand_text, operands_text, operand_room}

drop-next : (ops : List Operand) (k : ℕ) (op : Operand) → k < length ops → drop k ops ≡ get_or ops k op ∷ drop (k + 1) ops
drop-next ops k op lt = rw add-one (drop-cons ops k op lt)

pub text_step : (sized : Bool) (next k : ℕ) (ops : List Operand) (op : Operand) (old new whole : List ℕ) → k < length ops
    → new ≡ old ++ (separator k ++ operand_text sized next (get_or ops k op)) → old ++ operands_text sized next k (drop k ops) ≡ whole → new ++ operands_text sized next (k + 1) (drop (k + 1) ops) ≡ whole
unfolding operands_text
text_step sized next k ops op old new whole lt is h =
    let rest = operands_text sized next (k + 1) (drop (k + 1) ops) in
    rw is (append_assoc old (separator k ++ operand_text sized next (get_or ops k op)) rest ∙ (rw (drop-next ops k op lt) at h))

pub room_step : (k : ℕ) (ops : List Operand) (op : Operand) → k < length ops → sum_by operand_room (drop k ops) ≡ operand_room (get_or ops k op) + sum_by operand_room (drop (k + 1) ops)
room_step k ops op lt = ap (sum_by operand_room) (drop-next ops k op lt) ∙ sum_by-cons operand_room (get_or ops k op) (drop (k + 1) ops)

pub text_end : (sized : Bool) (next k : ℕ) (ops : List Operand) (old whole : List ℕ) → length ops ≤ k → old ++ operands_text sized next k (drop k ops) ≡ whole → old ≡ whole
unfolding operands_text
text_end sized next k ops old whole le h =
    let none : drop k ops ≡ [] = drop_of_length-le ops le in
    sym (append-nil old) ∙ (rw none at h)
