use mathlib.Core.Path.{refl}
use Rattle.format.proofs.Refusals.{list_7_count, list_pass}
use Rattle.book.proofs.Refusing.{failed}
use Rattle.book.proofs.tests.Body.field_list.Goals as goal

pub returns-in-Some : goal.returns-in-Some
returns-in-Some c = failed c.at.ensures.kind c.at.ensures.place (list_7_count _ _ _ _ c.in-Some.ensures.1 c.in-Some.ensures.0)

pub returns : goal.returns
returns c = list_pass _ _ _ _ refl c.in_default.ensures
