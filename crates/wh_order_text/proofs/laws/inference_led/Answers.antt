use Rattle.wh_order_text.proofs.InferenceWhole.{led}
use Rattle.wh_order_text.proofs.laws.inference_led.Goals as goal

pub returns : goal.returns
returns c = led
