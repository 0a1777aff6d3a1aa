use Rattle.std.proofs.Common.{◌≡◌, ◌∙◌, ◌+◌, ◌<◌, ◌≤◌, ◌∷◌, ◌++◌, [], ap, sym, subst, List, All, arith}
use Rattle.memory_map.specs.Range.{USER_END}
use Rattle.memory_map.specs.Spans.{IsBelow}
use Rattle.memory_map.specs.declared.span.Span.{Span}
use Rattle.image_listing.specs.Merging.{AreSeparate, BeginBy, Extends}
use Rattle.image_listing.proofs.Merges.{extends_apart, extends_joined}
use Rattle.image_listing.proofs.unset.put_after.Goals as goal

pub returns-in_ok-push-in-Some : goal.returns-in_ok-push-in-Some
returns-in_ok-push-in-Some c =
    let s = c.args.s in
    let last = c.in-Some.last in
    let xs = c.pop.new.self.items in
    let whole : c.args.runs.now.items ≡ xs ++ last ∷ [] = c.in-Some.ensures.items in
    let Sep : List Span → Type 0 = λ l. AreSeparate 0 l in
    let Fit : List Span → Type 0 = λ l. All (IsBelow USER_END) l in
    let By : List Span → Type 0 = λ l. BeginBy s.low l in
    let Old : List Span → Type 0 = λ l. Extends l s c.push.new.self.items in
    let New : List Span → Type 0 = λ l. Extends (xs ++ last ∷ []) s l in
    let meets : s.low ≤ last.low + last.size = omega (arith, c.if-from-end.true, c.from.ensures, c.end.ensures) in
    subst Old (sym whole) (subst New (sym c.in_ok-push-in-Some.ensures.items)
    (extends_joined xs last s (subst Sep whole c.requires.separate) (subst Fit whole c.requires.below) (subst By whole c.requires.order) c.requires.next c.as_one.result meets c.as_one.ensures.low c.as_one.ensures.end))

pub returns-in_ok-push-in-Some-3 : goal.returns-in_ok-push-in-Some-3
returns-in_ok-push-in-Some-3 c =
    let s = c.args.s in
    let last = c.in-Some.last in
    let xs = c.pop.new.self.items in
    let whole : c.args.runs.now.items ≡ xs ++ last ∷ [] = c.in-Some.ensures.items in
    let Sep : List Span → Type 0 = λ l. AreSeparate 0 l in
    let Fit : List Span → Type 0 = λ l. All (IsBelow USER_END) l in
    let By : List Span → Type 0 = λ l. BeginBy s.low l in
    let Old : List Span → Type 0 = λ l. Extends l s c.push-else-from-end-2.new.self.items in
    let New : List Span → Type 0 = λ l. Extends (xs ++ last ∷ []) s l in
    let gap : last.low + last.size < s.low = omega (arith, c.if-from-end.false, c.from.ensures, c.end.ensures) in
    subst Old (sym whole) (subst New (sym (c.in_ok-push-in-Some-3.ensures.items ∙ ap (λ (l : List Span). l ++ s ∷ []) c.in_ok-push-in-Some-2.ensures.items))
    (extends_apart xs last s (subst Sep whole c.requires.separate) (subst Fit whole c.requires.below) (subst By whole c.requires.order) c.requires.next c.requires.some gap))
