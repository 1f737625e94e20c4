use Rattle.refused_growths.proofs.offices.try_event.Given as goal

-- the list, the definition, the limits and the workers of what was opened
abbrev pub ghosts-try_opened : goal.ghosts-try_opened
ghosts-try_opened g a = record { book = a.opening.name; definition = a.opening.definition; limits = a.opening.limits; workers = a.opening.workers }
