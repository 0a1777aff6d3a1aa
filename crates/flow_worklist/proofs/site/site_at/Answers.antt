-- The exit place, an import's place, and code elsewhere.
use Rattle.std.proofs.Common.{sym}
use Rattle.std.proofs.lemmas.Bool.{ne_eqb}
use Rattle.memory_map.specs.Image.{EXIT_PLACE}
use Rattle.flow_worklist.proofs.Posting.{site-exit, site-import, site-code}
use Rattle.flow_worklist.proofs.site.site_at.Goals as goal

pub returns-then-at-eq-USER_END : goal.returns-then-at-eq-USER_END
returns-then-at-eq-USER_END c = sym (site-exit c.args.image.now c.args.at c.if-at-eq-USER_END.true)

pub returns-in-Some : goal.returns-in-Some
returns-in-Some c = sym (site-import c.args.image.now c.args.at c.in-Some.field-0.now (ne_eqb c.args.at EXIT_PLACE c.if-at-eq-USER_END.false) (sym c.in-Some.ensures.found))

pub returns-in-None : goal.returns-in-None
returns-in-None c = sym (site-code c.args.image.now c.args.at (ne_eqb c.args.at EXIT_PLACE c.if-at-eq-USER_END.false) (sym c.in-None.ensures.found))
