use Rattle.std.proofs.Common.{ap, sym, ◌∙◌}
use Rattle.x86_syntax.specs.Opcodes.{row_of}
use Rattle.x86_syntax.proofs.TableLemmas.{row_small}
use Rattle.x86_decoder.proofs.Steps.{no_bytes, modrm_end, modrm_none, modrm_wrong, modrm_place}
use Rattle.x86_decoder.proofs.decoder.read_modrm.Goals as goal

pub returns-in-None : goal.returns-in-None
returns-in-None c =
    rw c.short.ensures (modrm_end c.args.prefixes c.args.map c.args.code c.least_number.result c.args.bytes.now c.args.at c.least_number.ensures.least (no_bytes c.args.bytes.now c.in-None.ensures.cases))

pub returns-in-None-find_row : goal.returns-in-None-find_row
returns-in-None-find_row c =
    modrm_none c.args.prefixes c.args.map c.args.code c.in-Some.modrm.now c.args.first c.args.bytes.now c.in-Some.rest.now c.args.at c.requires.row c.in-Some.ensures.cases.0
    (ap (row_of c.args.prefixes c.args.map c.args.code) (sym c.reg.ensures) ∙ sym c.find_row.ensures ∙ c.in-None-find_row.is)

pub returns-then-is_wrong_place : goal.returns-then-is_wrong_place
returns-then-is_wrong_place c =
    modrm_wrong c.args.prefixes c.args.map c.args.code c.in-Some.modrm.now c.args.first c.in-Some-find_row.row c.args.bytes.now c.in-Some.rest.now c.args.at c.requires.row c.in-Some.ensures.cases.0
    (ap (row_of c.args.prefixes c.args.map c.args.code) (sym c.reg.ensures) ∙ sym c.find_row.ensures ∙ c.in-Some-find_row.is) (sym c.is_wrong_place.ensures ∙ c.if-is_wrong_place.true)

pub read_place-requires-clause-small : goal.read_place-requires-clause-small
read_place-requires-clause-small c = row_small c.args.prefixes c.args.map c.args.code c.reg.result c.in-Some-find_row.row (sym c.find_row.ensures ∙ c.in-Some-find_row.is)

pub returns-else-is_wrong_place : goal.returns-else-is_wrong_place
returns-else-is_wrong_place c =
    modrm_place c.args.prefixes c.args.map c.args.code c.in-Some.modrm.now c.in-Some-find_row.row c.args.bytes.now c.in-Some.rest.now c.args.at c.read_place.result c.in-Some.ensures.cases.0
    (ap (row_of c.args.prefixes c.args.map c.args.code) (sym c.reg.ensures) ∙ sym c.find_row.ensures ∙ c.in-Some-find_row.is) (sym c.is_wrong_place.ensures ∙ c.if-is_wrong_place.false) c.read_place.ensures
