use Rattle.mt_order_laws.proofs.StableFacts.{fits_in_any_order_lem}
use Rattle.mt_order_laws.proofs.order.fits_in_any_order.Goals as goal

pub returns : goal.returns
returns c = fits_in_any_order_lem
