-- How keys and words are written.
use Rattle.std.specs.Prelude.{ℕ, List, codes}
use Rattle.stub_file.specs.declared.keys.Key.{Key}
use Rattle.stub_file.specs.declared.keys.Key.TheVariants as key
use Rattle.stub_file.specs.declared.keys.Word.{Word}
use Rattle.stub_file.specs.declared.keys.Word.TheVariants as word

abbrev pub key_name : Key → List ℕ
key_name key.StackAlign = codes "stack_align"
key_name key.Stub = codes "stub"
key_name key.Args = codes "args"
key_name key.Cleans = codes "cleans"
key_name key.Reply = codes "reply"
key_name key.Number = codes "number"
key_name key.Size = codes "size"
key_name key.SizeArg = codes "size_arg"
key_name key.Zeroed = codes "zeroed"
key_name key.MayFail = codes "may_fail"
key_name key.EnterArg = codes "enter_arg"
key_name key.Writes = codes "writes"
key_name key.Arg = codes "arg"
key_name key.Length = codes "length"
key_name key.LengthArg = codes "length_arg"

abbrev pub word_name : Word → List ℕ
word_name word.Any = codes "any"
word_name word.Number = codes "number"
word_name word.Block = codes "block"
word_name word.Never = codes "never"
word_name word.Enter = codes "enter"
