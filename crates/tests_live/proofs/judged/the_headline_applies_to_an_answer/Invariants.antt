use Rattle.tests_live.proofs.judged.the_headline_applies_to_an_answer.Given as goal

-- the list, the definition, the limits and the workers of what was just opened
abbrev pub ghosts-call_retargeted : goal.ghosts-call_retargeted
ghosts-call_retargeted g a = record { book = a.opening.name; definition = a.opening.definition; limits = a.opening.limits; workers = a.opening.workers }
