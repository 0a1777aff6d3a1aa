use Rattle.std.proofs.Common.{List, map, ◌∙◌, ap}
use Rattle.automaton_text.specs.declared.automaton.OpenMark.{OpenMark}
use Rattle.run_replayer.proofs.Searching.{permuted}
use Rattle.run_replayer.proofs.index.index_of.Goals as goal

pub returns : goal.returns
returns c = record {
  edges = permuted _ _ _ (c.in_ok-edges.ensures ∙ c.as_slice.ensures) c.new.ensures;
  opened = permuted _ _ _ (c.in_ok-opened.ensures ∙ ap (λ (marks : List OpenMark). map (λ (m : OpenMark). m.at) marks) c.as_slice-2.ensures) c.new-2.ensures;
}
