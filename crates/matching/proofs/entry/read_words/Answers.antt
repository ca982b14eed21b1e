use Rattle.matching.proofs.entry.read_words.Goals as goal

pub returns-in-Err : goal.returns-in-Err
returns-in-Err c = c.in-Err.ensures.refused c.args.name.now c.args.codes.now
