use Rattle.image_load.proofs.RiseLemmas.{image_in_range}
use Rattle.image_load.proofs.laws.images_of_texts_rise.Goals as goal

pub returns : goal.returns
returns c = λ text bytes e. image_in_range text bytes e
