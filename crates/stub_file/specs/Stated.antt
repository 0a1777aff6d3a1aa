-- The stubs that a document states which has no fault.
use Rattle.std.specs.Prelude.{◌≡◌, ℕ, ◌<◌, ◌^◌, ◌&&◌, Bool, true, false, ◌⊎◌, Option, Some, None, IsSomeAnd, IsTrue, unwrap_or}
use Rattle.std.specs.List.{AllZip, list_all}
use Rattle.toml.specs.Data.{Data, as_table, Members}
use Rattle.stub_file.specs.Document.{items_at, natural_at, text_at, truth_at}
use Rattle.stub_file.specs.Keys.{word_name}
use Rattle.stub_file.specs.Rules.{is_index, is_reply}
use Rattle.stub_file.specs.declared.keys.Key.{Key}
use Rattle.stub_file.specs.declared.keys.Key.TheVariants as key
use Rattle.stub_file.specs.declared.keys.Word.TheVariants as word
use Rattle.stub_file.specs.declared.stub.Amount.{Amount}
use Rattle.stub_file.specs.declared.stub.Amount.TheVariants.{Fixed, Argument}
use Rattle.stub_file.specs.declared.stub.Reply.{Reply}
use Rattle.stub_file.specs.declared.stub.Reply.TheVariants as reply
use Rattle.stub_file.specs.declared.stub.Stub.{Stub}
use Rattle.stub_file.specs.declared.stub.StubWrite.{StubWrite}

-- the number at a key, or the argument whose index is at another
abbrev pub IsAmount : Key → Key → Members → Amount → Type 0
IsAmount fixed index t (Fixed n) = natural_at fixed t ≡ Some n
IsAmount fixed index t (Argument i) = natural_at index t ≡ Some i

-- the size of a block, and the truth values that are false where they are not there
pub record IsBlock (t : Members) (size : Amount) (zeroed may_fail : Bool) : Type 0 where
  pub size_is : IsAmount key.Size key.SizeArg t size
  pub zeroed_is : unwrap_or (truth_at key.Zeroed t) false ≡ zeroed
  pub may_fail_is : unwrap_or (truth_at key.MayFail t) false ≡ may_fail

abbrev pub IsReply : Members → Reply → Type 0
IsReply t reply.Anything = text_at key.Reply t ≡ Some (word_name word.Any)
IsReply t (reply.Number n) = (text_at key.Reply t ≡ Some (word_name word.Number)) × (natural_at key.Number t ≡ Some n)
IsReply t (reply.Block size zeroed may_fail) = (text_at key.Reply t ≡ Some (word_name word.Block)) × IsBlock t size zeroed may_fail
IsReply t reply.Never = text_at key.Reply t ≡ Some (word_name word.Never)
IsReply t (reply.Enter i) = (text_at key.Reply t ≡ Some (word_name word.Enter)) × (natural_at key.EnterArg t ≡ Some i)

pub record IsWriteOf (t : Members) (w : StubWrite) : Type 0 where
  pub arg : natural_at key.Arg t ≡ Some w.arg
  pub length : IsAmount key.Length key.LengthArg t w.length

abbrev pub IsWrite : Data → StubWrite → Type 0
IsWrite d w = IsSomeAnd (as_table d) (λ t. IsWriteOf t w)

-- the stub of a table
pub record IsStubOf (t : Members) (s : Stub) : Type 0 where
  pub args : natural_at key.Args t ≡ Some s.args
  pub cleans : unwrap_or (natural_at key.Cleans t) 0 ≡ s.cleans
  pub reply : IsReply t s.reply
  pub writes : AllZip IsWrite (items_at key.Writes t) s.writes.items

abbrev pub IsStub : Data → Stub → Type 0
IsStub d s = IsSomeAnd (as_table d) (λ t. IsStubOf t s)

-- whether each index is that of one of the stub's arguments
abbrev pub amount_is_own : ℕ → Amount → Bool
amount_is_own args (Fixed n) = true
amount_is_own args (Argument i) = is_index args i

abbrev pub write_is_own : ℕ → StubWrite → Bool
write_is_own args w = is_index args w.arg && amount_is_own args w.length

abbrev pub reply_is_own : ℕ → Reply → Bool
reply_is_own args (reply.Block size zeroed may_fail) = amount_is_own args size
reply_is_own args (reply.Enter i) = is_index args i
reply_is_own args _ = true

abbrev pub has_own_arguments : Stub → Bool
has_own_arguments s = reply_is_own s.args s.reply && list_all (write_is_own s.args) s.writes.items

-- what can be read: each number that is there fits its field
abbrev pub IsBelow : ℕ → Option ℕ → Type 0
IsBelow limit o = IsSomeAnd o (λ n. n < limit)

abbrev pub HasAmount : Key → Key → Members → Type 0
HasAmount fixed index t = IsBelow (2 ^ 32) (natural_at fixed t) ⊎ ((natural_at fixed t ≡ None) × IsBelow 256 (natural_at index t))

abbrev pub HasWriteOf : Members → Type 0
HasWriteOf t = IsBelow 256 (natural_at key.Arg t) × HasAmount key.Length key.LengthArg t

abbrev pub HasWrite : Data → Type 0
HasWrite d = IsSomeAnd (as_table d) HasWriteOf

pub record HasReply (t : Members) : Type 0 where
  pub reply : IsSomeAnd (text_at key.Reply t) (λ text. IsTrue (is_reply text))
  pub number : text_at key.Reply t ≡ Some (word_name word.Number) → IsBelow (2 ^ 32) (natural_at key.Number t)
  pub block : text_at key.Reply t ≡ Some (word_name word.Block) → HasAmount key.Size key.SizeArg t
  pub enter : text_at key.Reply t ≡ Some (word_name word.Enter) → IsBelow 256 (natural_at key.EnterArg t)
