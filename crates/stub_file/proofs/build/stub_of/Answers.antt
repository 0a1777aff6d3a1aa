use Rattle.std.proofs.Common.{◌∙◌, ◌≤◌, ap, arith, length, sym, unwrap_or}
use Rattle.std.proofs.lemmas.List.{length-map}
use Rattle.toml.specs.View.{table_view, view}
use Rattle.stub_file.specs.Document.{natural_at}
use Rattle.stub_file.specs.Faults.{args_of}
use Rattle.stub_file.specs.Stated.{IsStubOf, IsWrite}
use Rattle.stub_file.specs.declared.keys.Key.TheVariants as key
use Rattle.stub_file.proofs.Lists.{zip_map}
use Rattle.stub_file.proofs.Sound.{all_writes, args_are, args_few, cleans_fit, has_reply, stub_own, whole, writes_few, writes_typed}
use Rattle.stub_file.proofs.build.stub_of.Goals as goal

pub byte_at-requires : goal.byte_at-requires
unfolding args_of
byte_at-requires c =
    let t = table_view c.args.table.now in
    let few : unwrap_or (natural_at key.Args t) 0 ≤ 64 = args_few t (whole t c.requires) in
    omega arith

pub byte_at-requires-2 : goal.byte_at-requires-2
byte_at-requires-2 c =
    let t = table_view c.args.table.now in
    let few : unwrap_or (natural_at key.Cleans t) 0 ≤ 64 = cleans_fit _ _ t (whole t c.requires).stub in
    omega arith

pub reply_at-requires : goal.reply_at-requires
reply_at-requires c =
    let t = table_view c.args.table.now in
    has_reply (args_of t) t (args_few t (whole t c.requires)) (whole t c.requires).stub

pub writes_of-requires-clause-few : goal.writes_of-requires-clause-few
writes_of-requires-clause-few c =
    let t = table_view c.args.table.now in
    let few = writes_few t (whole t c.requires) in
    let same = sym (length-map c.items_at.result.now view) ∙ ap length c.items_at.ensures in
    omega (arith, few, same)

pub writes_of-requires-clause-writes : goal.writes_of-requires-clause-writes
writes_of-requires-clause-writes c =
    let t = table_view c.args.table.now in
    let w = whole t c.requires in
    all_writes (args_of t) (args_few t w) c.items_at.result.now
    (rw c.items_at.ensures (writes_typed t w)) (rw c.items_at.ensures w.write_kinds) (rw c.items_at.ensures w.write_ranges)

pub returns : goal.returns
unfolding args_of
returns c =
    let t = table_view c.args.table.now in
    let w = whole t c.requires in
    let stated : IsStubOf t (record { args = c.byte_at.result; cleans = c.byte_at-2.result; reply = c.reply_at.result; writes = c.writes_of.result }) =
    record {
      args = rw c.byte_at.ensures (args_are t w);
      cleans = sym c.byte_at-2.ensures;
      reply = c.reply_at.ensures;
      writes = rw (← c.items_at.ensures) (zip_map view IsWrite c.items_at.result.now c.writes_of.result.items c.writes_of.ensures);
    } in
    record { stated = stated; own = stub_own t w _ stated }
