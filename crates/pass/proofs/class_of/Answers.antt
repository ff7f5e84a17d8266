-- The class of a variable, by its byte and number. Assumes nothing.
use borrow.Author.Tests.{lt-ltb, le-ltb}
use Rattle.pass.proofs.class_of.Goals as goal

pub returns-then-i-globals : goal.returns-then-i-globals
returns-then-i-globals c = rw (lt-ltb _ _ c.if-i-globals.true)

pub returns-then-code-lt15 : goal.returns-then-code-lt15
returns-then-code-lt15 c = rw (le-ltb _ _ c.if-i-globals.false, lt-ltb _ _ c.if-code-lt15.true)

pub returns-else-code-lt15 : goal.returns-else-code-lt15
returns-else-code-lt15 c = rw (le-ltb _ _ c.if-i-globals.false, le-ltb _ _ c.if-code-lt15.false)
