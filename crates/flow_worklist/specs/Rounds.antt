-- What the expansions of the rows of a round are, and a log with them taken in.
use Rattle.std.specs.Prelude.{ℕ, ◌+◌, List, [], ◌∷◌, ◌++◌, Option, Some, None, option_map, Result, Ok, Err, Vec}
use Rattle.std.specs.List.{AllZip}
use Rattle.std.specs.declared.alloc.Global.{Global}
use Rattle.domain_laws.specs.Laws.{Values}
use Rattle.memory_map.specs.Image.{Image}
use Rattle.stub_file.specs.Stubs.{StatedStubs}
use Rattle.flow_log.specs.Log.{Row, with_next_pairs, with_notes}
use Rattle.abstract_state.specs.State.{Known, covers_state}
use Rattle.flow_worklist.specs.declared.post.Post.{Post}
use Rattle.flow_worklist.specs.Analysis.{ImageLog, edge_by, widened_by}
use Rattle.flow_worklist.specs.PostOf.{IsPostOf}

-- what several lists have, one list after another, where none is refused
abbrev pub in_order : {X E : Type 0} → List (Result (Vec X Global) E) → Option (List X)
in_order [] = Some []
in_order (Ok part ∷ parts) = option_map (λ rest. part.items ++ rest) (in_order parts)
in_order (Err e ∷ parts) = None

module _ {D : Type 0} (d : Values D) where
  -- each row's expansion, by its own location and state alone
  abbrev pub ArePosts : Image → StatedStubs → ℕ → List (Row (Known D)) → List (Post D) → Type 0
  ArePosts image stubs k rows posts = AllZip (λ row answer. IsPostOf d image stubs k row.location row.state answer) rows posts

  -- the expansion of the row of a number taken in
  abbrev pub with_post : ℕ → ℕ → ℕ → Post D → ImageLog D → ImageLog D
  with_post k budget number answer log =
      with_next_pairs (covers_state d) (widened_by d k) budget number (edge_by answer.at answer.label) answer.expansion.next (with_notes number answer.expansion log)

  -- those of the rows from a number on, in order
  abbrev pub with_posts : ℕ → ℕ → ℕ → List (Post D) → ImageLog D → ImageLog D
  with_posts k budget number [] log = log
  with_posts k budget number (answer ∷ answers) log = with_posts k budget (number + 1) answers (with_post k budget number answer log)
