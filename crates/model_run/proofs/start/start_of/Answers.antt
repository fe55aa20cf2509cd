use Rattle.model_run.proofs.start.start_of.Goals as goal
