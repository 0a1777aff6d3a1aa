-- What the image and the stub file that the program makes itself come to.
use Rattle.std.specs.Prelude.{ℕ, ◌≡◌, ◌≤◌, pos, true, false, List, [], ◌∷◌, ◌++◌, codes, Ok}
use Rattle.demo_images.specs.Elf.{CODE}
use Rattle.demo_images.specs.Tables.{TABLES, tables}
use Rattle.demo_images.specs.Imported.{Imported}
use Rattle.demo_images.specs.Demo.{MOST_BLOCKS, blocks, last_call, demo_image, demo_stubs}
use Rattle.elf32_reader.specs.ElfFile.{Layout}
use Rattle.elf32_reader.specs.declared.reloc.RelocSymbol.TheVariants.{Import}
use Rattle.image_loader.specs.Loading.{elf, load_of}
use Rattle.toml.specs.Data.{Members, no_members, member, integer, string, table}
use Rattle.stub_file.specs.Faults.{IsFaultless}
use Rattle.stub_file.specs.Stubs.{IsDocument, Refuses}
use Rattle.stub_file.specs.declared.fault.StubFault.{StubFault}
use Rattle.stub_file.specs.declared.fault.StubFault.TheVariants.{Memory}

-- the one name that a demo image imports
abbrev pub demo_imports : List Imported
demo_imports = record { name = codes "exit"; weak = false } ∷ []

-- code that may be executed, tables that may be written, and in their first word, the slot, the place of `exit`
abbrev pub demo_layout : ℕ → Layout
demo_layout n = record {
  dynamic = false;
  bias = 0;
  entry = CODE;
  segments =
      record { low = CODE; bytes = blocks n ++ last_call; write = false; execute = true }
      ∷ record { low = TABLES; bytes = tables demo_imports; write = true; execute = false }
      ∷ [];
  relocs = record { at = TABLES; size = 4; adds = false; plus = 0; symbol = Import 0 } ∷ [];
  names = codes "exit" ∷ [];
}

-- each demo image is loaded without a fault
abbrev pub DemoImagesLoad : Type 0
DemoImagesLoad = (n : ℕ) → n ≤ MOST_BLOCKS → load_of (demo_image n) ≡ Ok (elf (demo_layout n))

-- the table `stub.exit` with its two keys
abbrev pub demo_document : Members
demo_document =
    member (codes "stub")
    (table (member (codes "exit") (table (member (codes "args") (integer (pos 4)) (member (codes "reply") (string (codes "never")) no_members))) no_members))
    no_members

-- the stub file of a demo image is that document, without a fault
abbrev pub DemoStubsAreFaultless : Type 0
DemoStubsAreFaultless = IsDocument demo_stubs demo_document × IsFaultless demo_document

-- so it is refused for want of memory alone
abbrev pub DemoStubsAreRead : Type 0
DemoStubsAreRead = (fault : StubFault) → Refuses demo_stubs fault → fault ≡ Memory
