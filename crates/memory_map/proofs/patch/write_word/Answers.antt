use Rattle.std.proofs.Common.{◌≡◌, ◌+◌, ◌-◌, ◌++◌, [], ℕ, List, take, drop, length, sym, ap, ◌∙◌, arith}
use Rattle.std.specs.Int.{w32, to_le_bytes}
use Rattle.std.proofs.lemmas.List.{append_assoc, append-nil, drop_all, drop-drop, take_rest, length-drop}
use Rattle.memory_map.proofs.patch.write_word.Goals as goal

pub returns : goal.returns
returns c =
    let at = c.args.at in
    let bytes = c.args.bytes.now in
    let room = length bytes - at in
    let word = to_le_bytes w32 c.args.word in
    let lent : take room (drop at bytes) ≡ drop at bytes = take_rest bytes at in
    let written : c.write_u32.new.buf ≡ word ++ drop 4 (take room (drop at bytes)) = c.write_u32.ensures in
    let rest : drop 4 (take room (drop at bytes)) ≡ drop (at + 4) bytes = ap (drop 4) lent ∙ drop-drop 4 at bytes in
    let end : drop room (drop at bytes) ≡ [] = drop_all room (drop at bytes) (omega (arith, length-drop at bytes)) in
    ap (λ (xs : List ℕ). take at bytes ++ (c.write_u32.new.buf ++ xs)) end
    ∙ ap (λ (xs : List ℕ). take at bytes ++ xs) (append-nil c.write_u32.new.buf ∙ written ∙ ap (λ (xs : List ℕ). word ++ xs) rest)
    ∙ sym (append_assoc (take at bytes) word (drop (at + 4) bytes))
