use Rattle.wh_cert_letters.proofs.NamesAndNumbers.{word_grows}
use Rattle.wh_cert_letters.proofs.letters.Letters.push.Goals as goal

pub invariant_of-self-2 : goal.invariant_of-self-2
invariant_of-self-2 c =
    word_grows c.args.self.now c.self.inside.bytes c.push.new.self c.args.byte c.self.invariant c.self.view_is c.requires c.in_ok-push.ensures.ok
