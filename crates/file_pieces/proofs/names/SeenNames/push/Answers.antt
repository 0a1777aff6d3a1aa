use Rattle.std.proofs.Common.{◌∙◌, [], ◌∷◌, ap, arith, length, sym}
use Rattle.std.proofs.lemmas.List.{length-append, length-map}
use Rattle.file_pieces.proofs.NameLists.{pushed, pushed_at, with_name-new}
use Rattle.file_pieces.proofs.names.SeenNames.push.Goals as goal

pub returns : goal.returns
returns c =
    let longer = pushed (λ v. v.items) c.args.self.now c.self.inside.held.keys c.insert_full.new.self.keys c.in_ok-key.key c.args.name.now c.self.view_is c.in_ok-key.ensures.items c.requires.other c.in_ok-index.ensures.keys in (
      pushed_at (λ v. v.items) c.args.self.now c.self.inside.held.keys c.in_ok-key.key c.args.name.now c.in_ok-index.index c.self.view_is c.in_ok-key.ensures.items c.in_ok-index.ensures.index,
      longer ∙ sym (with_name-new c.args.self.now c.args.name.now c.requires.other),
      omega (arith, c.in_ok-index.ensures.within, length-map c.insert_full.new.self.keys (λ v. v.items)),
      omega (arith, ap length longer, length-append c.args.self.now (c.args.name.now ∷ []), ap length c.self.view_is, length-map c.self.inside.held.keys (λ v. v.items), c.len.ensures.len, c.if-len-ge-MOST_NAMES.false),
    )
