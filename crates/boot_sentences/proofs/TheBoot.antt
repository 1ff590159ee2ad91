-- Both joined: an installer is the policy's boot, which the contracts of the installer and of the boundary's install call cite.
-- Assumes nothing.
use Prim.Native.Nat.{ℕ, ◌≤◌}
use mathlib.Core.Path.{◌≡◌, ap, ◌∙◌}
use Rattle.policy.specs.Plan.{boot, lifecycle_of}
use Rattle.policy.specs.declared.Installed.{Installed}
use Rattle.policy.specs.declared.Lifecycle.{Lifecycle}
use Rattle.rules.specs.declared.Handler.{Handler}
use Rattle.sentences.specs.AccessArrays.{Sized}
use Rattle.boot_sentences.specs.Boots.{Installer}
use Rattle.boot_sentences.proofs.HoldsBoots.{installed, holds_installer, has_number}
use Rattle.boot_sentences.proofs.OnlyBoots.{only_installer}

module _ (f : ℕ → Handler → Installed) (p : Installer f) (h : Handler) (s : Sized h) where
  -- of a lifecycle's number, as the boundary's call has it
  pub is_the_boot : (c : ℕ) → f c h ≡ boot (lifecycle_of c) h
  is_the_boot c = only_installer f installed p holds_installer c h s

  -- of a lifecycle, as the installer's boot has it
  pub is_its_boot : (l : Lifecycle) → (c : ℕ) × (c ≤ 5) × (f c h ≡ boot l h)
  is_its_boot l = let n = has_number l in (n.0, n.1, is_the_boot n.0 ∙ ap (λ (x : Lifecycle). boot x h) n.2)
