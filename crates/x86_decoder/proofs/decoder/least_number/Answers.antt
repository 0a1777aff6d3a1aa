use Rattle.x86_decoder.proofs.Modrm.{least_begins}
use Rattle.x86_decoder.proofs.decoder.least_number.Goals as goal

pub loop-reg-init : goal.loop-reg-init
loop-reg-init c = record {
  least = least_begins c.args.prefixes c.args.map c.args.code c.args.first c.size_at-least.result c.requires c.size_at-least.ensures.value;
  bound = c.size_at-least.ensures.bound;
}
