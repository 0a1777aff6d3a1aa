use Rattle.demo_loading.proofs.Stubs.{stubs_are_faultless, stubs_are_read}
use Rattle.demo_loading.proofs.laws.demo_stubs_are_read.Goals as goal

pub returns-clause-faultless : goal.returns-clause-faultless
returns-clause-faultless c = stubs_are_faultless

pub returns-clause-read : goal.returns-clause-read
returns-clause-read c = stubs_are_read
