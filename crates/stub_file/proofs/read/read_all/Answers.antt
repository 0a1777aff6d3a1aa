use Rattle.std.proofs.Common.{◌≡◌, ℕ, List, [], ◌∷◌, Some, subst, sym, rules}
use Rattle.std.specs.Map.Iter.{deref_pair}
use Rattle.std.proofs.lemmas.Map.Iter.{rest_all, rest_more}
use Rattle.stub_file.specs.Entries.{Entry, OrMemory, Puts}
use Rattle.stub_file.specs.Faults.{stub_fault}
use Rattle.stub_file.proofs.Gathered.{Gathered, Row, finish, start, step, stop}
use Rattle.toml.specs.View.{view}
use Rattle.stub_file.proofs.read.read_all.Goals as goal

pub loop-name-init : goal.loop-name-init
loop-name-init c =
    let all = c.args.table.now.entries in
    let from : c.into_iter-name-iterator.result ≡ all = search rules in
    let P : List Row → Type 0 = λ rest. Gathered all c.new-stubs.result.entries rest in
    let Q : List Entry → Type 0 = λ done. Gathered all done all in
    subst P (sym from) (subst Q (sym c.new-stubs.ensures.empty) (start all c.iter-name-items.ensures.ordered))

pub loop-name-preserved : goal.loop-name-preserved
loop-name-preserved c =
    let all = c.args.table.now.entries in
    let row : Row = (c.in-Some.name.now, c.in-Some.value.now) in
    let first : c.loop-name.name-iterator ≡ row ∷ c.next.new.self =
    rest_more deref_pair c.loop-name.name-iterator c.next.new.self c.next.result (c.in-Some.name, c.in-Some.value) c.in-Some.is c.next.ensures.steps in
    let P : List Row → Type 0 = λ rest. Gathered all c.loop-name.stubs.entries rest in
    let Q : List ℕ → Type 0 = λ name. Puts name (view c.in-Some.value.now) c.loop-name.stubs.entries c.put.new.stubs.entries in
    step all c.loop-name.stubs.entries c.put.new.stubs.entries row c.next.new.self (subst P first c.loop-name.invariant) (subst Q c.as_str.ensures.value c.in-Ok.ensures.put)

pub returns-clause-read : goal.returns-clause-read
returns-clause-read c =
    let all = c.args.table.now.entries in
    let none : c.loop-name.name-iterator ≡ [] =
    rest_all deref_pair c.loop-name.name-iterator c.next.new.self c.next.result c.in-None.is c.next.ensures.steps in
    let P : List Row → Type 0 = λ rest. Gathered all c.loop-name.stubs.entries rest in
    finish all c.loop-name.stubs.entries (subst P none c.loop-name.invariant)

pub returns-in-Err-clause-fault : goal.returns-in-Err-clause-fault
returns-in-Err-clause-fault c =
    let all = c.args.table.now.entries in
    let row : Row = (c.in-Some.name.now, c.in-Some.value.now) in
    let first : c.loop-name.name-iterator ≡ row ∷ c.next.new.self =
    rest_more deref_pair c.loop-name.name-iterator c.next.new.self c.next.result (c.in-Some.name, c.in-Some.value) c.in-Some.is c.next.ensures.steps in
    let P : List Row → Type 0 = λ rest. Gathered all c.loop-name.stubs.entries rest in
    let Q : List ℕ → Type 0 = λ name. OrMemory (λ fault. stub_fault name (view c.in-Some.value.now) ≡ Some fault) c.in-Err.fault in
    stop all c.loop-name.stubs.entries row c.next.new.self c.in-Err.fault (subst P first c.loop-name.invariant) (subst Q c.as_str.ensures.value c.in-Err.ensures.fault)
