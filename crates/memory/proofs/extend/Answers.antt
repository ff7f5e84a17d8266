-- A number of n bytes read as signed, at either width. Assumes nothing.
use Rattle.memory.specs.Answer.{access_width}
use Rattle.memory.proofs.Digits.{half_positive, ones_fit, stays, narrows, grows, room_above}
use Rattle.memory.proofs.extend.Goals as goal

pub returns-then-x-half : goal.returns-then-x-half
returns-then-x-half c =
    let s = c in
    stays s.args.n s.requires.1 s.requires.2 _ c.if-x-half.true

pub returns-then-top-below : goal.returns-then-top-below
returns-then-top-below c =
    let s = c in
    narrows s.args.n s.requires.1 s.requires.2 (access_width s.args.to64) c.ones-top.ensures c.if-x-half.false c.if-top-below.true

pub overflow_add-result : goal.overflow_add-result
overflow_add-result c =
    let s = c in
    room_above s.args.n s.requires.1 s.requires.2 s.args.to64 s.requires.0 c.ones-top.ensures c.if-top-below.false

pub returns : goal.returns
returns c =
    let s = c in
    grows s.args.n s.requires.1 s.requires.2 (access_width s.args.to64) c.ones-top.ensures c.if-x-half.false
