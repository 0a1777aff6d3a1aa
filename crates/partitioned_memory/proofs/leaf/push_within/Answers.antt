use Rattle.std.proofs.Common.{◌++◌, ap, ◌∙◌, arith, filter, subst, sym}
use Rattle.std.specs.Prelude.{◌&&◌, not}
use Rattle.std.proofs.lemmas.List.{append-nil}
use Rattle.partitioned_memory.specs.Lists.{Falls}
use Rattle.partitioned_memory.proofs.Cuts.{middle-is, middle-none}
use Rattle.partitioned_memory.proofs.leaf.push_within.Goals as goal

pub place_of_pair-end-requires : goal.place_of_pair-end-requires
place_of_pair-end-requires g c =
    let a = g.S.Stretch.after c.args.stretch.now in
    subst (Falls (λ p. not (a p))) (sym c.as_slice-pairs.ensures.value) c.requires.end

pub returns-then-end-start : goal.returns-then-end-start
returns-then-end-start g c =
    let b = g.S.Stretch.before c.args.stretch.now in
    let a = g.S.Stretch.after c.args.stretch.now in
    let none = middle-none b a c.as_slice-pairs.result.now c.place_of_pair-start.result c.place_of_pair-end.result c.if-end-start.true c.place_of_pair-start.ensures.front c.place_of_pair-end.ensures.back in
    sym (append-nil c.args.out.now.items)
    ∙ ap (λ zs. c.args.out.now.items ++ zs) (sym none ∙ ap (filter (λ p. not (b p) && not (a p))) c.as_slice-pairs.ensures.value)

pub returns : goal.returns
returns g c =
    let b = g.S.Stretch.before c.args.stretch.now in
    let a = g.S.Stretch.after c.args.stretch.now in
    let middle = middle-is b a c.as_slice-pairs.result.now c.place_of_pair-start.result c.place_of_pair-end.result (omega arith) c.place_of_pair-start.ensures.front c.place_of_pair-start.ensures.back c.place_of_pair-end.ensures.front c.place_of_pair-end.ensures.back in
    c.in_ok-extend_from_slice.ensures.items
    ∙ ap (λ zs. c.args.out.now.items ++ zs) (middle ∙ ap (filter (λ p. not (b p) && not (a p))) c.as_slice-pairs.ensures.value)
