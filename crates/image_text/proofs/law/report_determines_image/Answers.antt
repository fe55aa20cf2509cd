use Rattle.image_text.proofs.Telling.{report_determines}
use Rattle.image_text.proofs.law.report_determines_image.Goals as goal

pub returns : goal.returns
returns c = report_determines
