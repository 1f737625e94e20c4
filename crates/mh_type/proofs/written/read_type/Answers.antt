use Rattle.std.proofs.Common.{lit<, sym, ◌∙◌}
use Rattle.std.proofs.lemmas.Str.Pattern.{strip_prefix_char, split_once_first}
use Rattle.mh_type.proofs.Laws.{unopened, unclosed, nameless, rest_read}
use Rattle.mh_type.proofs.written.read_type.Goals as goal

pub returns-in_default : goal.returns-in_default
returns-in_default c =
    let none = rw c.in_default.is at (strip_prefix_char 40 c.args.text.now c.strip_prefix.result c.strip_prefix.ensures.cases (lit< tt)) in
    record { value = unopened c.args.text.now none }

pub returns-in_default-split_once : goal.returns-in_default-split_once
returns-in_default-split_once c =
    let opened = rw c.in-Some.is at (strip_prefix_char 40 c.args.text.now c.strip_prefix.result c.strip_prefix.ensures.cases (lit< tt)) in
    let none = rw c.in_default-split_once.is at (split_once_first 41 c.in-Some.behind.now c.split_once.result c.split_once.ensures.cases (lit< tt)) in
    record { value = unclosed c.args.text.now c.in-Some.behind.now opened none }

pub returns-in_default-from_name : goal.returns-in_default-from_name
returns-in_default-from_name c =
    let opened = rw c.in-Some.is at (strip_prefix_char 40 c.args.text.now c.strip_prefix.result c.strip_prefix.ensures.cases (lit< tt)) in
    let (inside, front, back) = rw c.in-Some-split_once.is at (split_once_first 41 c.in-Some.behind.now c.split_once.result c.split_once.ensures.cases (lit< tt)) in
    record { value = nameless c.args.text.now c.in-Some.behind.now opened (rw (← back) (sym c.from_name.ensures.value ∙ c.in_default-from_name.is)) }

pub returns : goal.returns
returns c =
    let opened = rw c.in-Some.is at (strip_prefix_char 40 c.args.text.now c.strip_prefix.result c.strip_prefix.ensures.cases (lit< tt)) in
    let (inside, front, back) = rw c.in-Some-split_once.is at (split_once_first 41 c.in-Some.behind.now c.split_once.result c.split_once.ensures.cases (lit< tt)) in
    let read = rest_read c.args.text.now c.in-Some.behind.now c.in-Some-from_name.ret opened (rw (← back) (sym c.from_name.ensures.value ∙ c.in-Some-from_name.is)) in
    record { value = rw (read, ← front) c.read_parameters.ensures.value }
