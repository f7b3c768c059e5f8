use Rattle.svn_folder.proofs.disk.DiskFolder.sum_file.Given as goal

abbrev pub decreases-pieces : goal.decreases-pieces
decreases-pieces g l = l.left
