-- How a search goes that a request asks for.
use Rattle.std.specs.Prelude.{ℕ, ◌*◌, ◌-◌, ◌^◌, min, Option, Some, None}
use Rattle.td_request.specs.declared.request.Strategy.{Strategy}
use Rattle.td_request.specs.declared.request.Strategy.TheVariants as asked
use Rattle.td_worst.specs.declared.method.Method.{Method}
use Rattle.td_worst.specs.declared.method.Method.TheVariants as method

abbrev pub method_of : Strategy → Method
method_of asked.Least = method.Least
method_of asked.Lead = method.Lead
method_of asked.Refute = method.Refute
method_of asked.Auto = method.Auto

-- the bytes of so many units of 1,048,576 bytes, and all that there are where none are given
abbrev pub bytes_of : Option ℕ → ℕ
bytes_of (Some units) = min (units * 1048576) (2 ^ 64 - 1)
bytes_of None = 2 ^ 64 - 1
