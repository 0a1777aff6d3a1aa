use Rattle.std.proofs.Common.{◌∙◌, Some, None, map}
use Rattle.memory_map.specs.Map.{range_of}
use Rattle.file_pieces.proofs.Texts.{name_from-is, name_of-name, name_of-other}
use Rattle.file_pieces.proofs.found.name_from.Goals as goal

pub returns-then-is_name-clause-exact : goal.returns-then-is_name-clause-exact
returns-then-is_name-clause-exact c =
    name_of-name c.in-Some.name.now c.is_name.result c.is_name.ensures c.if-is_name.true
    ∙ name_from-is (map range_of c.args.segments.now) c.args.a c.args.most c.min-bound.result c.rest_at.result.now c.front.result.now (Some c.in-Some.name.now) c.min-bound.ensures c.rest_at.ensures c.front.ensures c.in-Some.ensures

pub returns-else-is_name-clause-exact : goal.returns-else-is_name-clause-exact
returns-else-is_name-clause-exact c =
    name_of-other c.in-Some.name.now c.is_name.result c.is_name.ensures c.if-is_name.false
    ∙ name_from-is (map range_of c.args.segments.now) c.args.a c.args.most c.min-bound.result c.rest_at.result.now c.front.result.now (Some c.in-Some.name.now) c.min-bound.ensures c.rest_at.ensures c.front.ensures c.in-Some.ensures

pub returns-in-None-clause-exact : goal.returns-in-None-clause-exact
returns-in-None-clause-exact c =
    name_from-is (map range_of c.args.segments.now) c.args.a c.args.most c.min-bound.result c.rest_at.result.now c.front.result.now None c.min-bound.ensures c.rest_at.ensures c.front.ensures c.in-None.ensures
