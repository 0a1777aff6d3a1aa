use Rattle.std.proofs.Common.{◌∙◌, IsTrue}
use Rattle.std.specs.Cmp.Lexicographic.{slice_cmp}
use Rattle.std.specs.Ordering.{is_eq, nat_cmp}
use Rattle.stub_file.specs.Stated.{has_own_arguments}
use Rattle.stub_file.proofs.Entries.{copied, lookup_named, own_found}
use Rattle.stub_file.proofs.stubs.Stubs.find.Goals as goal

pub returns-clause-found : goal.returns-clause-found
returns-clause-found c = rw (← c.self.view_is) (c.get.ensures.value ∙ lookup_named c.args.name.now c.self.inside.stubs.entries)

pub returns-clause-own : goal.returns-clause-own
returns-clause-own c =
    copied (λ s. IsTrue (has_own_arguments s)) c.get.result
    (rw c.get.ensures.value (own_found (λ k. is_eq (slice_cmp nat_cmp c.args.name.now k.items)) c.self.inside.stubs.entries c.self.invariant.1))
