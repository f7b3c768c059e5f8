use Rattle.test_formats.proofs.images.index_reader.+push_records.Given as goal

abbrev pub decreases-push_records : goal.decreases-push_records
decreases-push_records l = l.levels
