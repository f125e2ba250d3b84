use Rattle.wh_order_text.proofs.FilterWhole.{filter_led}
use Rattle.wh_order_text.proofs.laws.filter_led.Goals as goal

pub returns : goal.returns
returns c = filter_led
