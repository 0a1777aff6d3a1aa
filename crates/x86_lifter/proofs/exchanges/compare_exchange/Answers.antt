use Rattle.x86_lifter.proofs.exchanges.compare_exchange.Goals as goal

pub returns : goal.returns
returns c =
    rw (c.fetch.ensures, c.fetch_register.ensures, c.fetch_register-2.ensures, c.put.ensures, c.put-2.ensures, c.skip_unless.ensures, c.copy.ensures, c.keep.ensures, c.unless_equal.ensures, c.keep_register.ensures, c.set_flags.ensures, c.free.ensures, c.go_to.ensures, c.none.ensures)
    at c.behind_places.ensures
