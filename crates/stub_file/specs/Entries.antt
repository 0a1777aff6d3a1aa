-- The stubs in the map that the program holds.
use Rattle.std.specs.Prelude.{◌≡◌, ◌⊎◌, ℕ, Bool, true, List, None, map, Vec, IsTrue}
use Rattle.std.specs.BTreeMap.{insert_entry}
use Rattle.std.specs.Cmp.Lexicographic.{slice_cmp}
use Rattle.std.specs.List.{list_all}
use Rattle.std.specs.Ordering.{nat_cmp}
use Rattle.std.specs.declared.alloc.Global.{Global}
use Rattle.toml.specs.Data.{Data, Members}
use Rattle.stub_file.specs.Faults.{AreFaultless, stub_fault}
use Rattle.stub_file.specs.Stated.{IsStub, has_own_arguments}
use Rattle.stub_file.specs.Stubs.{AreStubs}
use Rattle.stub_file.specs.declared.fault.StubFault.{StubFault}
use Rattle.stub_file.specs.declared.fault.StubFault.TheVariants.{Memory}
use Rattle.stub_file.specs.declared.stub.Stub.{Stub}

abbrev pub Entry : Type 0
Entry = Vec ℕ Global × Stub

abbrev pub named_of : List Entry → List (List ℕ × Stub)
named_of es = map (λ e. (e.0.items, e.1)) es

abbrev pub are_own : List Entry → Bool
are_own es = list_all (λ e. has_own_arguments e.1) es

-- the stub of a value was put in under its name
pub record Puts (name : List ℕ) (d : Data) (old new : List Entry) : Type 0 where
  pub key : Vec ℕ Global
  pub stub : Stub
  pub key_is : key.items ≡ name
  pub faultless : stub_fault name d ≡ None
  pub stated : IsStub d stub
  pub own : IsTrue (has_own_arguments stub)
  pub after : new ≡ insert_entry (λ x y. slice_cmp nat_cmp x.items y.items) old key stub

-- the stubs of a table without a fault
pub record AreRead (t : Members) (es : List Entry) : Type 0 where
  pub faultless : AreFaultless t
  pub stated : AreStubs t (named_of es)
  pub own : are_own es ≡ true

-- want of memory, or such a fault
abbrev pub OrMemory : (StubFault → Type 0) → StubFault → Type 0
OrMemory P fault = (fault ≡ Memory) ⊎ P fault
