-- Request (vi): the classification of 58 alerts by six lifecycles in source document 002, "Alert Event Classification".
-- Assumes nothing.
use Rattle.std.specs.Prelude.{ℕ, List, [], ◌∷◌, get_or}
use Rattle.policy.specs.declared.Lifecycle.{Lifecycle}
use Rattle.policy.specs.declared.Mark.{Mark}
use Rattle.policy.specs.declared.Mark.TheVariants.{A, B, C, D, X}

abbrev pub alert_count : ℕ
alert_count = 58

-- one line of the table
pub record Row : Type 0 where
  pub raw : Mark
  pub prod : Mark
  pub prod_end : Mark
  pub dev : Mark
  pub rma : Mark
  pub scrap : Mark

abbrev row : Mark → Mark → Mark → Mark → Mark → Mark → Row
row a b c d e f = record { raw = a; prod = b; prod_end = c; dev = d; rma = e; scrap = f }

-- the columns are RAW/TEST, PROD, PROD_END, DEV, RMA, SCRAP; the comments are ID and name
abbrev pub table : List Row
table =
    row X C C X X X  -- 0 Uart0FatalFault
    ∷ row X C C X X X  -- 1 Uart1FatalFault
    ∷ row X C C X X X  -- 2 Uart2FatalFault
    ∷ row X C C X X X  -- 3 Uart3FatalFault
    ∷ row X C C X X X  -- 4 GpioFatalFault
    ∷ row X C C X X X  -- 5 SpiDeviceFatalFault
    ∷ row X C C D X X  -- 6 SpiHost0FatalFault
    ∷ row X C C D X X  -- 7 SpiHost1FatalFault
    ∷ row X C C X X X  -- 8 I2c0FatalFault
    ∷ row X C C X X X  -- 9 I2c1FatalFault
    ∷ row X C C X X X  -- 10 I2c2FatalFault
    ∷ row X C C X X X  -- 11 PattgenFatalFault
    ∷ row X C C X X X  -- 12 RvTimerFatalFault
    ∷ row X C C X X X  -- 13 UsbdevFatalFault
    ∷ row X A A D X X  -- 14 OtpCtrlFatalMacroError
    ∷ row X A A D X X  -- 15 OtpCtrlFatalCheckError
    ∷ row X A A D X X  -- 16 OtpCtrlFatalBusIntegError
    ∷ row X A A D X X  -- 17 LcCtrlFatalProgError
    ∷ row X A A D X X  -- 18 LcCtrlFatalStateError
    ∷ row X A A D X X  -- 19 LcCtrlFatalBusIntegError
    ∷ row X C C X X X  -- 20 PwrmgrAonFatalFault
    ∷ row X C C X X X  -- 21 RstmgrAonFatalFault
    ∷ row X C C X X X  -- 22 ClkmgrAonRecovFault
    ∷ row X C C X X X  -- 23 ClkmgrAonFatalFault
    ∷ row X C C X X X  -- 24 SysrstCtrlAonFatalFault
    ∷ row X C C X X X  -- 25 AdcCtrlAonFatalFault
    ∷ row X C C X X X  -- 26 PwmAonFatalFault
    ∷ row X C C X X X  -- 27 PinmuxAonFatalFault
    ∷ row X C C X X X  -- 28 AonTimerAonFatalFault
    ∷ row X C C X X X  -- 29 SensorCtrlRecovAlert
    ∷ row X C C X X X  -- 30 SensorCtrlFatalAlert
    ∷ row X B B D X X  -- 31 SramCtrlRetAonFatalIntgError
    ∷ row X D D D X X  -- 32 FlashCtrlRecovErr
    ∷ row X A A D X X  -- 33 FlashCtrlFatalErr
    ∷ row X C C X X X  -- 34 RvDmFatalFault
    ∷ row X C C X X X  -- 35 RvPlicFatalFault
    ∷ row X D D D X X  -- 36 AesRecovCtrlUpdateErr
    ∷ row X A A D X X  -- 37 AesFatalFault
    ∷ row X A A D X X  -- 38 HmacFatalFault
    ∷ row X A A D X X  -- 39 KmacFatalFault
    ∷ row X A A D X X  -- 40 KeymgrFatalFaultErr
    ∷ row X D D D X X  -- 41 KeymgrRecovOperationErr
    ∷ row X D D D X X  -- 42 CsrngRecovAlert
    ∷ row X A A D X X  -- 43 CsrngFatalAlert
    ∷ row X D D D X X  -- 44 EntropySrcRecovAlert
    ∷ row X A A D X X  -- 45 EntropySrcFatalAlert
    ∷ row X A A D X X  -- 46 Edn0FatalAlert
    ∷ row X D D D X X  -- 47 Edn0RecovAlert
    ∷ row X A A D X X  -- 48 Edn1FatalAlert
    ∷ row X D D D X X  -- 49 Edn1RecovAlert
    ∷ row X A A D X X  -- 50 SramCtrlMainFatalError
    ∷ row X A A D X X  -- 51 OtbnFatal
    ∷ row X D D D X X  -- 52 OtbnRecov
    ∷ row X A A D X X  -- 53 RomCtrlFatal
    ∷ row X A A D X X  -- 54 RvCoreIbexFatalSwErr
    ∷ row X D D D X X  -- 55 RvCoreIbexRecovSwErr
    ∷ row X A A D X X  -- 56 RvCoreIbexFatalHwErr
    ∷ row X D D D X X  -- 57 RvCoreIbexRecovHwErr
    ∷ []

abbrev pub column : Lifecycle → Row → Mark
column Lifecycle.Raw r = r.raw
column Lifecycle.Prod r = r.prod
column Lifecycle.ProdEnd r = r.prod_end
column Lifecycle.Dev r = r.dev
column Lifecycle.Rma r = r.rma
column Lifecycle.Scrap r = r.scrap

-- how alert i is marked
unfoldable pub mark_at : Lifecycle → ℕ → Mark
mark_at l i = column l (get_or table i (row X X X X X X))
