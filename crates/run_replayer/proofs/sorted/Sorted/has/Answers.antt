-- the items are sorted, so a binary search tells whether one of them is there
use Rattle.run_replayer.proofs.Searching.{has_told}
use Rattle.run_replayer.proofs.sorted.Sorted.has.Goals as goal

pub returns : goal.returns
returns g c =
    has_told g.T.Ord.cmp g.met.T.Ord.total c.requires _ _ _ _ _ _ c.as_slice.ensures.value c.self.view_is c.is_ok.ensures.value c.self.invariant
    c.binary_search.ensures.bound c.binary_search.ensures.position
