use Rattle.forms.proofs.source.Source.+look.Given as goal

abbrev pub decreases-look : goal.decreases-look
decreases-look g l = l.i
