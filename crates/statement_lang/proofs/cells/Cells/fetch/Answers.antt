use Rattle.std.proofs.Common.{◌≡◌, ◌+◌, ◌-◌, ◌++◌, ◌∷◌, [], ap, sym, ◌∙◌, arith, List, ℕ, Some, None}
use Rattle.std.proofs.lemmas.List.{append-nil, append_assoc}
use Rattle.memory_map.specs.Range.{code_at, code_run, run_of}
use Rattle.memory_map.specs.State.{memory}
use Rattle.memory_map.proofs.Lists.{run_of-stops, run_of-goes, run_of-none}
use Rattle.statement_lang.proofs.cells.Cells.fetch.Goals as goal

pub returns-in-None : goal.returns-in-None
unfolding code_run
returns-in-None c =
    let look = code_at (memory c.args.self.now) in
    let at : c.from-at.result ≡ c.args.self.now.eip = c.from-at.ensures ∙ c.eip.ensures in
    let here : look (c.from-at.result + c.loop-i.i) ≡ None = cc in
    let none = run_of-stops look (15 - c.loop-i.i) (c.from-at.result + c.loop-i.i) here in
    sym (c.loop-i.invariant.1 ∙ ap (λ (xs : List ℕ). c.loop-i.bytes.items ++ xs) none ∙ append-nil c.loop-i.bytes.items) ∙ ap (run_of look 15) at

pub loop-i-preserved : goal.loop-i-preserved
loop-i-preserved c =
    let look = code_at (memory c.args.self.now) in
    let start = c.from-at.result in
    let here : look (start + c.loop-i.i) ≡ Some c.in-Some.b = cc in
    let left : 15 - c.loop-i.i ≡ (15 - (c.loop-i.i + 1)) + 1 = omega arith in
    let next : start + c.loop-i.i + 1 ≡ start + (c.loop-i.i + 1) = omega arith in
    let goes = run_of-goes look (15 - c.loop-i.i) (15 - (c.loop-i.i + 1)) (start + c.loop-i.i) c.in-Some.b left here in (
      omega (arith, c.push.ensures.len),
      c.loop-i.invariant.1
          ∙ ap (λ (xs : List ℕ). c.loop-i.bytes.items ++ xs) (goes ∙ ap (λ a. c.in-Some.b ∷ run_of look (15 - (c.loop-i.i + 1)) a) next)
          ∙ sym (append_assoc c.loop-i.bytes.items (c.in-Some.b ∷ []) (run_of look (15 - (c.loop-i.i + 1)) (start + (c.loop-i.i + 1))))
          ∙ ap (λ (xs : List ℕ). xs ++ run_of look (15 - (c.loop-i.i + 1)) (start + (c.loop-i.i + 1))) (sym c.push.ensures.items),
    )

pub returns : goal.returns
unfolding code_run
returns c =
    let look = code_at (memory c.args.self.now) in
    let at : c.from-at.result ≡ c.args.self.now.eip = c.from-at.ensures ∙ c.eip.ensures in
    let none = run_of-none look (15 - c.loop-i.i) (c.from-at.result + c.loop-i.i) (omega arith) in
    sym (c.loop-i.invariant.1 ∙ ap (λ (xs : List ℕ). c.loop-i.bytes.items ++ xs) none ∙ append-nil c.loop-i.bytes.items) ∙ ap (run_of look 15) at
