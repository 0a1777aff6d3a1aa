use Rattle.std.proofs.Common.{◌≡◌, ◌∙◌, ap, map, arith}
use Rattle.std.specs.Option.{option_map}
use Rattle.std.proofs.lemmas.Bool.{eqb-true}
use Rattle.memory_map.specs.FileBytes.{word_at}
use Rattle.memory_map.specs.Map.{range_of}
use Rattle.file_pieces.specs.Found.{bytes_at}
use Rattle.pe_headers.specs.Headers.{address_from}
use Rattle.pe32_reader.specs.Imports.{name_list, TOO_MANY_THUNKS}
use Rattle.pe32_reader.proofs.Walks.{thunks-zero}
use Rattle.pe32_reader.proofs.imports.has_no_thunk.Goals as goal

pub returns-in-Some-clause-none : goal.returns-in-Some-clause-none
returns-in-Some-clause-none c = λ none.
    let ranges = map range_of c.args.segments.now in
    let base = c.args.base in
    let d = c.args.descriptor in
    let place : c.from.result ≡ address_from base (name_list d) = c.from.ensures ∙ c.address_from-list.ensures ∙ ap (address_from base) c.name_list.ensures in
    thunks-zero ranges TOO_MANY_THUNKS 65535 (address_from base (name_list d)) (address_from base d.first_thunk) c.in-Some.word (omega arith)
    (c.in-Some.ensures ∙ ap (λ a. option_map (λ bytes. word_at bytes 0) (bytes_at ranges a 4)) place) (eqb-true c.in-Some.word 0 none)
