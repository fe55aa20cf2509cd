use Rattle.std.proofs.Common.{◌∙◌, ap, bytes_eq}
use Rattle.std.specs.Map.{lookup}
use Rattle.fault_script.specs.Listing.{position_in}
use Rattle.fault_script.proofs.Tables.{put-found}
use Rattle.fault_script.proofs.positions.Positions.put.Goals as goal

pub returns : goal.returns
unfolding position_in
returns c = λ other. ap (lookup (λ key. bytes_eq other key.items)) c.in_ok-insert.ensures.entries ∙ put-found other c.args.self.now.positions.entries c.args.text c.args.position
