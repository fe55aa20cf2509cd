use Rattle.state_space.specs.Locations.{is_state}
use Rattle.state_space.proofs.Small.{room}
use Rattle.state_layout.proofs.Tabling.{index-low}
use Rattle.state_layout.proofs.map.Map.staged_offset.Goals as goal

pub place_in-requires-clause-index : goal.place_in-requires-clause-index
place_in-requires-clause-index c = index-low is_state c.args.self.now.signatures c.args.cell (room c.args.self.now.signatures c.is_placed.ensures.room).states c.requires
