-- What follows from the limits alone, by computation. Assumes nothing.
use mathlib.Core.Path.{refl}
use native.Mathlib.Omega.{arith}
use Rattle.ops.specs.Bounds.{Fitting, AsAsked}

pub limits_fit : Fitting
limits_fit = record { variables = omega arith; labels = omega arith; places = omega arith; numbers = omega arith; times = omega arith }

pub limits_asked : AsAsked
limits_asked = record { last_label = refl; no_label = refl; size = refl }
