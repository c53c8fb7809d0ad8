-- What words are refused for.
use Rattle.std.specs.Prelude.{Result, IsErrOf}
use Rattle.command_words.specs.declared.request.Refusal.{Refusal}
use Rattle.command_words.specs.declared.request.Refusal.TheVariants as refusal

-- usage is answered only where this holds
abbrev pub IsRefusedFor : {T : Type 0} → Result T Refusal → Type 0 → Type 0
IsRefusedFor result why = IsErrOf result refusal.Usage → why
