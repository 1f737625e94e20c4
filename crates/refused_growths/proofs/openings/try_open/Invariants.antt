use Rattle.refused_growths.proofs.openings.try_open.Given as goal

-- the list, the definition, the limits and the workers of what was opened
abbrev pub ghosts-open_first : goal.ghosts-open_first
ghosts-open_first g a = record { book = a.opening.name; definition = a.opening.definition; limits = a.opening.limits; workers = a.opening.workers }

abbrev pub ghosts-open_again : goal.ghosts-open_again
ghosts-open_again g a = record { book = a.opening.name; definition = a.opening.definition; limits = a.opening.limits; workers = a.opening.workers }
