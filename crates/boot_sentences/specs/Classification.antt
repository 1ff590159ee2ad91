-- Source document 002, "Alert Event Classification", copied line by line.
-- Assumes nothing.
use Rattle.std.specs.Prelude.{ℕ, List, [], ◌∷◌, get_or}

-- the letters of the table: a class, or X
pub data Letter : Type 0 where
  A : Letter
  B : Letter
  C : Letter
  D : Letter
  X : Letter

-- "the classification of 58 alerts by six lifecycles in source document 002": the columns are RAW/TEST, PROD, PROD_END, DEV, RMA, SCRAP; the comments are ID
-- and name
abbrev pub table : List (List Letter)
table =
    (X ∷ C ∷ C ∷ X ∷ X ∷ X ∷ [])  -- 0 Uart0FatalFault
    ∷ (X ∷ C ∷ C ∷ X ∷ X ∷ X ∷ [])  -- 1 Uart1FatalFault
    ∷ (X ∷ C ∷ C ∷ X ∷ X ∷ X ∷ [])  -- 2 Uart2FatalFault
    ∷ (X ∷ C ∷ C ∷ X ∷ X ∷ X ∷ [])  -- 3 Uart3FatalFault
    ∷ (X ∷ C ∷ C ∷ X ∷ X ∷ X ∷ [])  -- 4 GpioFatalFault
    ∷ (X ∷ C ∷ C ∷ X ∷ X ∷ X ∷ [])  -- 5 SpiDeviceFatalFault
    ∷ (X ∷ C ∷ C ∷ D ∷ X ∷ X ∷ [])  -- 6 SpiHost0FatalFault
    ∷ (X ∷ C ∷ C ∷ D ∷ X ∷ X ∷ [])  -- 7 SpiHost1FatalFault
    ∷ (X ∷ C ∷ C ∷ X ∷ X ∷ X ∷ [])  -- 8 I2c0FatalFault
    ∷ (X ∷ C ∷ C ∷ X ∷ X ∷ X ∷ [])  -- 9 I2c1FatalFault
    ∷ (X ∷ C ∷ C ∷ X ∷ X ∷ X ∷ [])  -- 10 I2c2FatalFault
    ∷ (X ∷ C ∷ C ∷ X ∷ X ∷ X ∷ [])  -- 11 PattgenFatalFault
    ∷ (X ∷ C ∷ C ∷ X ∷ X ∷ X ∷ [])  -- 12 RvTimerFatalFault
    ∷ (X ∷ C ∷ C ∷ X ∷ X ∷ X ∷ [])  -- 13 UsbdevFatalFault
    ∷ (X ∷ A ∷ A ∷ D ∷ X ∷ X ∷ [])  -- 14 OtpCtrlFatalMacroError
    ∷ (X ∷ A ∷ A ∷ D ∷ X ∷ X ∷ [])  -- 15 OtpCtrlFatalCheckError
    ∷ (X ∷ A ∷ A ∷ D ∷ X ∷ X ∷ [])  -- 16 OtpCtrlFatalBusIntegError
    ∷ (X ∷ A ∷ A ∷ D ∷ X ∷ X ∷ [])  -- 17 LcCtrlFatalProgError
    ∷ (X ∷ A ∷ A ∷ D ∷ X ∷ X ∷ [])  -- 18 LcCtrlFatalStateError
    ∷ (X ∷ A ∷ A ∷ D ∷ X ∷ X ∷ [])  -- 19 LcCtrlFatalBusIntegError
    ∷ (X ∷ C ∷ C ∷ X ∷ X ∷ X ∷ [])  -- 20 PwrmgrAonFatalFault
    ∷ (X ∷ C ∷ C ∷ X ∷ X ∷ X ∷ [])  -- 21 RstmgrAonFatalFault
    ∷ (X ∷ C ∷ C ∷ X ∷ X ∷ X ∷ [])  -- 22 ClkmgrAonRecovFault
    ∷ (X ∷ C ∷ C ∷ X ∷ X ∷ X ∷ [])  -- 23 ClkmgrAonFatalFault
    ∷ (X ∷ C ∷ C ∷ X ∷ X ∷ X ∷ [])  -- 24 SysrstCtrlAonFatalFault
    ∷ (X ∷ C ∷ C ∷ X ∷ X ∷ X ∷ [])  -- 25 AdcCtrlAonFatalFault
    ∷ (X ∷ C ∷ C ∷ X ∷ X ∷ X ∷ [])  -- 26 PwmAonFatalFault
    ∷ (X ∷ C ∷ C ∷ X ∷ X ∷ X ∷ [])  -- 27 PinmuxAonFatalFault
    ∷ (X ∷ C ∷ C ∷ X ∷ X ∷ X ∷ [])  -- 28 AonTimerAonFatalFault
    ∷ (X ∷ C ∷ C ∷ X ∷ X ∷ X ∷ [])  -- 29 SensorCtrlRecovAlert
    ∷ (X ∷ C ∷ C ∷ X ∷ X ∷ X ∷ [])  -- 30 SensorCtrlFatalAlert
    ∷ (X ∷ B ∷ B ∷ D ∷ X ∷ X ∷ [])  -- 31 SramCtrlRetAonFatalIntgError
    ∷ (X ∷ D ∷ D ∷ D ∷ X ∷ X ∷ [])  -- 32 FlashCtrlRecovErr
    ∷ (X ∷ A ∷ A ∷ D ∷ X ∷ X ∷ [])  -- 33 FlashCtrlFatalErr
    ∷ (X ∷ C ∷ C ∷ X ∷ X ∷ X ∷ [])  -- 34 RvDmFatalFault
    ∷ (X ∷ C ∷ C ∷ X ∷ X ∷ X ∷ [])  -- 35 RvPlicFatalFault
    ∷ (X ∷ D ∷ D ∷ D ∷ X ∷ X ∷ [])  -- 36 AesRecovCtrlUpdateErr
    ∷ (X ∷ A ∷ A ∷ D ∷ X ∷ X ∷ [])  -- 37 AesFatalFault
    ∷ (X ∷ A ∷ A ∷ D ∷ X ∷ X ∷ [])  -- 38 HmacFatalFault
    ∷ (X ∷ A ∷ A ∷ D ∷ X ∷ X ∷ [])  -- 39 KmacFatalFault
    ∷ (X ∷ A ∷ A ∷ D ∷ X ∷ X ∷ [])  -- 40 KeymgrFatalFaultErr
    ∷ (X ∷ D ∷ D ∷ D ∷ X ∷ X ∷ [])  -- 41 KeymgrRecovOperationErr
    ∷ (X ∷ D ∷ D ∷ D ∷ X ∷ X ∷ [])  -- 42 CsrngRecovAlert
    ∷ (X ∷ A ∷ A ∷ D ∷ X ∷ X ∷ [])  -- 43 CsrngFatalAlert
    ∷ (X ∷ D ∷ D ∷ D ∷ X ∷ X ∷ [])  -- 44 EntropySrcRecovAlert
    ∷ (X ∷ A ∷ A ∷ D ∷ X ∷ X ∷ [])  -- 45 EntropySrcFatalAlert
    ∷ (X ∷ A ∷ A ∷ D ∷ X ∷ X ∷ [])  -- 46 Edn0FatalAlert
    ∷ (X ∷ D ∷ D ∷ D ∷ X ∷ X ∷ [])  -- 47 Edn0RecovAlert
    ∷ (X ∷ A ∷ A ∷ D ∷ X ∷ X ∷ [])  -- 48 Edn1FatalAlert
    ∷ (X ∷ D ∷ D ∷ D ∷ X ∷ X ∷ [])  -- 49 Edn1RecovAlert
    ∷ (X ∷ A ∷ A ∷ D ∷ X ∷ X ∷ [])  -- 50 SramCtrlMainFatalError
    ∷ (X ∷ A ∷ A ∷ D ∷ X ∷ X ∷ [])  -- 51 OtbnFatal
    ∷ (X ∷ D ∷ D ∷ D ∷ X ∷ X ∷ [])  -- 52 OtbnRecov
    ∷ (X ∷ A ∷ A ∷ D ∷ X ∷ X ∷ [])  -- 53 RomCtrlFatal
    ∷ (X ∷ A ∷ A ∷ D ∷ X ∷ X ∷ [])  -- 54 RvCoreIbexFatalSwErr
    ∷ (X ∷ D ∷ D ∷ D ∷ X ∷ X ∷ [])  -- 55 RvCoreIbexRecovSwErr
    ∷ (X ∷ A ∷ A ∷ D ∷ X ∷ X ∷ [])  -- 56 RvCoreIbexFatalHwErr
    ∷ (X ∷ D ∷ D ∷ D ∷ X ∷ X ∷ [])  -- 57 RvCoreIbexRecovHwErr
    ∷ []

-- the letter of alert i in column c, counted from 0; past the table there is none: never read
unfoldable pub letter : ℕ → ℕ → Letter
letter c i = get_or (get_or table i []) c X
