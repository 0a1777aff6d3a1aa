-- The laws of instructions, over every lawful domain.
use Rattle.domain_laws.specs.Laws.{Values, IsLawful}
use Rattle.abstract_state.proofs.Narrowing.{refining-is_sound, refining-keeps_well}
use Rattle.transfer_functions.specs.Laws.{InstrIsSound, InstrKeepsWell}
use Rattle.transfer_functions.proofs.SoundOperations.{instructions_are_sound}
use Rattle.transfer_functions.proofs.KeepingOperations.{instructions_keep_well}

module _ {D : Type 0} (d : Values D) (l : IsLawful d) where
  pub instructions-are_sound : InstrIsSound d
  instructions-are_sound image k i n choice s p m next loaded well describes does none =
      let f = instructions_are_sound d l image p k i n choice s m next (refining-is_sound d l) (refining-keeps_well d l) well describes does none in
      record { state = f.state; pair = f.pair; well = f.well; describes = f.describes }

  pub instructions-keep_well : InstrKeepsWell d
  instructions-keep_well image k i at n s pair loaded well held =
      instructions_keep_well d l image loaded.map.bytes loaded.map.inside k i at n s pair (refining-keeps_well d l) well held
