-- What the code's answer on a row says of its expansion.
use Rattle.std.specs.Prelude.{ℕ, ◌≡◌, ◌⊎◌, [], None}
use Rattle.domain_laws.specs.Laws.{Values}
use Rattle.memory_map.specs.Image.{Image, name_at}
use Rattle.x86_syntax.specs.Decodes.{decoded}
use Rattle.flow_log.specs.declared.edge.Label.{Label}
use Rattle.x86_machine.specs.Machine.{label_by}
use Rattle.abstract_state.specs.State.{Known}
use Rattle.abstract_state.specs.Expanding.{Expanded}
use Rattle.stub_file.specs.Stubs.{StatedStubs}
use Rattle.flow_worklist.specs.declared.post.Post.{Post}
use Rattle.transfer_functions.specs.Fetching.{known_run}
use Rattle.flow_worklist.specs.Post.{post, post_code}

module _ {D : Type 0} (d : Values D) (image : Image) (k : ℕ) where
  -- the address of a row at code, its expansion, and where that has a next pair, the label of its steps
  pub record IsCodeOf (location : ℕ) (s : Known D) (answer : Post D) : Type 0 where
    pub located : answer.at ≡ location
    pub expansion : answer.expansion ≡ post_code d image k (decoded (known_run d image s location)) location s
    pub label : (answer.expansion.next ≡ []) ⊎ (label_by None (known_run d image s location) ≡ answer.label)

module _ {D : Type 0} (d : Values D) (image : Image) (stubs : StatedStubs) (k : ℕ) where
  -- where an expansion has a next pair, this is the label of its steps
  abbrev pub IsLabelled : ℕ → Known D → Expanded D → Label → Type 0
  IsLabelled a s x label = (x.next ≡ []) ⊎ (label_by (name_at image a) (known_run d image s a) ≡ label)

  -- the address of a row, its expansion, and the label of its steps
  pub record IsPostOf (location : ℕ) (s : Known D) (answer : Post D) : Type 0 where
    pub located : answer.at ≡ location
    pub expansion : answer.expansion ≡ post d image stubs k location s
    pub label : IsLabelled location s answer.expansion answer.label
