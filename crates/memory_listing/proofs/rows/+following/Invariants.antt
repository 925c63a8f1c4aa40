use Rattle.memory_listing.proofs.rows.+following.Given as goal

abbrev pub decreases-following : goal.decreases-following
decreases-following l = l.most
