use Rattle.tests_live.proofs.settling.another_office_goes_on_and_counts_anew.Given as goal

-- the list, the definition, the limits and the workers of what was just opened
abbrev pub ghosts-works_and_renews : goal.ghosts-works_and_renews
ghosts-works_and_renews g a = record { book = a.opening.name; definition = a.opening.definition; limits = a.opening.limits; workers = a.opening.workers }

-- the same of the next office
abbrev pub ghosts-settles_all_hits : goal.ghosts-settles_all_hits
ghosts-settles_all_hits g a = record { book = a.opening.name; definition = a.opening.definition; limits = a.opening.limits; workers = a.opening.workers }
