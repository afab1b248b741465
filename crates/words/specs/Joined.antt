-- One list of terms before another.
use Rattle.syntax.specs.Term.{Terms, done, arg}

unfoldable pub joined : Terms → Terms → Terms
joined done us = us
joined (arg t ts) us = arg t (joined ts us)
