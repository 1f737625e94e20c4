use Rattle.tests_live.proofs.scenario.play.Given as goal

-- the list, the definition, the limits and the workers of what was just opened
abbrev pub ghosts-play_named : goal.ghosts-play_named
ghosts-play_named g a = record { book = a.opening.name; definition = a.opening.definition; limits = a.opening.limits; workers = a.opening.workers }
